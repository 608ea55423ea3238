pub mod Numbers
pub mod Reading
pub mod Answers
pub mod Inverse
