pub mod Waits
pub mod Held
