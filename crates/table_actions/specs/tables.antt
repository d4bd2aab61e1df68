pub mod Told
pub mod Owners
