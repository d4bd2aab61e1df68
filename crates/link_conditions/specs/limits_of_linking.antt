pub mod Texts
pub mod Climbing
pub mod Cells
