pub mod Locking
pub mod Words
