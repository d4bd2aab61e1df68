pub mod Synchronization
