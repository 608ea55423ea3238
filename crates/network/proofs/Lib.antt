pub mod Repeats
pub mod Sheets
pub mod EdgeSets
pub mod Indexing
pub mod Leaving
