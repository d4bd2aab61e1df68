pub mod Objects
pub mod Threads
pub mod Ends
