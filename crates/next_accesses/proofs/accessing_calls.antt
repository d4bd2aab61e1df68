pub mod SpecialSites
pub mod ClassNames
pub mod Rows
pub mod Named
pub mod Receiving
pub mod Calls
pub mod Instructions
