pub mod NeededTexts
pub mod Names
pub mod Needs
pub mod Parts
pub mod Adding
pub mod Offers
pub mod Completing
