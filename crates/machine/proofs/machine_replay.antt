pub mod Opened
mod Telling
pub mod Replayed
