pub mod Allocating
pub mod Filling
