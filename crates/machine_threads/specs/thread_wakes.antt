pub mod Ends
pub mod Relocks
