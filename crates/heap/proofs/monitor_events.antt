pub mod Woken
pub mod Ending
pub mod Alive
