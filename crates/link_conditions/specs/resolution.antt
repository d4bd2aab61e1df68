pub mod Found
pub mod Operands
pub mod Rows
pub mod Unresolved
