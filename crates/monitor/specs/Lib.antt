pub mod Replies
pub mod Rows
pub mod Waiting
pub mod Calls
pub mod Following
pub mod Shifts
pub mod Examples
