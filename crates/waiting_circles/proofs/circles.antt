pub mod Awaiting
pub mod Turns
