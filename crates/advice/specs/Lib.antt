pub mod Advice
pub mod Reading
pub mod Telling
pub mod Told
pub mod Wrong
