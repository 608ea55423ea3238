pub mod Steps
pub mod Answers
pub mod Layout
pub mod Reading
pub mod Closing
