pub mod Known
pub mod Clocks
pub mod Kept
pub mod Told
pub mod Watching
pub mod Steps
