pub mod Searches
pub mod Picks
