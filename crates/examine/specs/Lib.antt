pub mod Tallies
pub mod Answers
pub mod Examining
