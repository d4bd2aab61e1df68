pub mod Finding
pub mod Caught
pub mod Pending
