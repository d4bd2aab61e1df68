pub mod Turns
pub mod Worlds
pub mod Shown
pub mod Commits
pub mod Records
pub mod Finishing
