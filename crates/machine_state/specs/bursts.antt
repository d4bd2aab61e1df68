pub mod Frames
pub mod Bursts
