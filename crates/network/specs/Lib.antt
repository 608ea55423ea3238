pub mod Answers
pub mod Meaning
pub mod Networks
pub mod EdgeSets
pub mod Index
