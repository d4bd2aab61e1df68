pub mod Constants
pub mod Statuses
pub mod Needed
pub mod Steps
