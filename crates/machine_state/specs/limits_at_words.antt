pub mod Limits
pub mod FatLocks
pub mod Room
