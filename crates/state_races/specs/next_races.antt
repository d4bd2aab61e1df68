pub mod Races
pub mod Placed
