mod Adding
mod Places
pub mod Tallying
mod RunsSwept
mod Counting
mod Telling
mod Queue
