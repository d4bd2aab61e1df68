pub mod Accessing
pub mod Standing
pub mod Locals
pub mod Moves
pub mod Releases
