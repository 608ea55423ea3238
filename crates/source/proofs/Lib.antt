pub mod Found
pub mod Traces
pub mod Closing
