pub mod Right
pub mod Picks
pub mod Telling
pub mod Adding
