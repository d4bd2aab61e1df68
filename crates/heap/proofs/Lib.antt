pub mod Kept
pub mod Extended
pub mod Laid
pub mod Sound
pub mod Same
