pub mod Locks
pub mod Records
pub mod Words
