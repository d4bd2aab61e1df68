pub mod Own
pub mod Commuting
pub mod Reduction
