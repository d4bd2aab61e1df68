pub mod Growing
pub mod Seams
