pub mod Doing
pub mod Memory
