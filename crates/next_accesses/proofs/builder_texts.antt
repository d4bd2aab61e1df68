pub mod Accessed
pub mod Operands
