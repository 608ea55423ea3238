pub mod Answers
pub mod Line
