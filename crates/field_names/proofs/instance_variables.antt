pub mod Lists
pub mod Lineages
pub mod Own
