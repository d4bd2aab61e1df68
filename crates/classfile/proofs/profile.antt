pub mod Counted
pub mod Sized
pub mod Operands
pub mod Walks
pub mod First
