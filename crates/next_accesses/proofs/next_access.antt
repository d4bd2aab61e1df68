pub mod Parts
pub mod Stepping
pub mod Passing
pub mod Meant
pub mod Called
pub mod Right
pub mod Adding
