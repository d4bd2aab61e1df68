pub mod Needing
pub mod Naming
pub mod Offering
pub mod Turns
pub mod Missing
pub mod Spelled
pub mod Own
