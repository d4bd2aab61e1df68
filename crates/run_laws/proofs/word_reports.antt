pub mod Held
pub mod Reported
