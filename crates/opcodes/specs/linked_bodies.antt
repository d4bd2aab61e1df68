pub mod Parts
pub mod Code
pub mod Handlers
pub mod Bodies
