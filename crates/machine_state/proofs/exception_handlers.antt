pub mod Numbered
pub mod Climbing
pub mod Finding
pub mod ErrorObjects
