pub mod Instances
pub mod Threads
pub mod Objects
pub mod Steps
pub mod Alive
pub mod Ends
pub mod EndsAtWords
