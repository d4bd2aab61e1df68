pub mod Alike
pub mod Adding
