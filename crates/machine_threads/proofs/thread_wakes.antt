pub mod Ending
pub mod Woken
