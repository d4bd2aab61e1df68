pub mod Cycles
pub mod Deadlocks
pub mod Details
pub mod Explained
pub mod Found
pub mod Waits
