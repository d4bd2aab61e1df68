pub mod Monitors
pub mod Worlds
pub mod Table
pub mod Steps
