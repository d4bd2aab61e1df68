pub mod Classes
pub mod References
pub mod Pairwise
pub mod FrameTypes
pub mod Linking
