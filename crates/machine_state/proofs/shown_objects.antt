pub mod Slots
pub mod Cells
pub mod Objects
pub mod Strings
pub mod New
