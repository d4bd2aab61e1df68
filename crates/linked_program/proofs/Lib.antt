pub mod Sizes
pub mod Main
