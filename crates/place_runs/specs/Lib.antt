pub mod Standing
pub mod Meaning
pub mod Following
pub mod Shown
pub mod Worlds
pub mod Followed
pub mod Placing
