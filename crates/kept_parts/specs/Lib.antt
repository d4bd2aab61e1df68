pub mod Heaps
pub mod Objects
pub mod Rows
pub mod Stacks
pub mod Threads
