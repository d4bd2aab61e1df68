pub mod Keys
pub mod Listed
pub mod Sound
pub mod Done
pub mod ThinLocks
pub mod Waiting
