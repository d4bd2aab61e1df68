pub mod Places
pub mod Events
