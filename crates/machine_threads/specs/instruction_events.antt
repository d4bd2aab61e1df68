pub mod Families
pub mod Doing
pub mod Events
