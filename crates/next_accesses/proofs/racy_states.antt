pub mod Alike
pub mod Places
pub mod RaceAt
pub mod Growing
pub mod Kept
