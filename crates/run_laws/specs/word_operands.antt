pub mod Operands
pub mod Receivers
