pub mod Fits
pub mod Picks
pub mod TypingProofs
pub mod TableProofs
pub mod BuiltInTypingProofs
