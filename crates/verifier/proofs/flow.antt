pub mod Anywhere
pub mod Filling
pub mod LinkedTypes
pub mod AtBoundaries
pub mod Locally
pub mod Meant
pub mod Refused
pub mod Flowing
