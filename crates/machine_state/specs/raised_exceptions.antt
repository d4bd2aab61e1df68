pub mod Raised
pub mod Applied
