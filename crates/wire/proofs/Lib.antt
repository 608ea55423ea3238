pub mod Groupwise
pub mod Inverse
