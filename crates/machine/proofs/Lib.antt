pub mod Turning
pub mod Repeating
pub mod Lent
pub mod Advancing
mod Copied
