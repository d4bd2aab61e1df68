pub mod Counts
pub mod Supers
pub mod Initialising
pub mod Filling
