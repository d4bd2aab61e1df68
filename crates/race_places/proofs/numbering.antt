pub mod Keys
pub mod Renamed
pub mod Stays
pub mod Steps
