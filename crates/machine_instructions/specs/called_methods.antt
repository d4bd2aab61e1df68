pub mod Frames
pub mod Invoked
pub mod Plain
pub mod Selected
