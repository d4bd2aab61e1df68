pub mod Rows
pub mod Others
pub mod Links
pub mod Operands
