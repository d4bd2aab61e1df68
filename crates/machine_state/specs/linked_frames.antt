pub mod Frames
pub mod Moves
