pub mod Standings
pub mod Parts
