pub mod Lines
pub mod Memory
