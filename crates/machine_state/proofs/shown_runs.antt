pub mod Same
pub mod Limits
pub mod Runs
