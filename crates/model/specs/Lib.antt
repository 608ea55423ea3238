pub mod Rows
pub mod Model
pub mod Layout
pub mod Sound
pub mod Sheet
pub mod Numbers
pub mod Texts
pub mod Shapes
