pub mod Following
pub mod Turns
pub mod Continuing
