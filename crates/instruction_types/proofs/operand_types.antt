pub mod Lists
pub mod Operands
pub mod Rows
