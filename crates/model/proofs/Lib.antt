pub mod Stands
pub mod Exact
pub mod Facts
