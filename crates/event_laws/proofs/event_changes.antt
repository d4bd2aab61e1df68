pub mod Lists
pub mod Changed
pub mod Worlds
pub mod Table
pub mod Steps
