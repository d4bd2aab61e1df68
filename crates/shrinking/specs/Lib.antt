pub mod Entries
pub mod Switches
pub mod Shrunk
