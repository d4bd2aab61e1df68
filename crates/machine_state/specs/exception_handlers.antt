pub mod Handlers
pub mod Errors
