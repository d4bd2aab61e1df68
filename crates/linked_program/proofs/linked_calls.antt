pub mod Callees
pub mod Finding
pub mod Specials
pub mod Rows
pub mod Halves
pub mod Selecting
