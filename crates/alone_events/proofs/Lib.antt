pub mod Runs
pub mod Standing
pub mod Moves
pub mod Told
pub mod Releases
