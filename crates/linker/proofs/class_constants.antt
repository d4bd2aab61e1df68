pub mod Sizes
pub mod Places
pub mod StaticConstants
pub mod Pushes
pub mod Numbers
