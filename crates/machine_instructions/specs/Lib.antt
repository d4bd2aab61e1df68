pub mod called_methods
pub mod field_instructions
pub mod Leaving
pub mod local_instructions
pub mod monitor_instructions
pub mod returns
pub mod thread_methods
pub mod type_instructions
