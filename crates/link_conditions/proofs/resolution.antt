pub mod Operands
pub mod Texts
pub mod Rows
pub mod Walks
