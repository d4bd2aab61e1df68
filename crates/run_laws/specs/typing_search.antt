pub mod Orders
pub mod Search
pub mod Tables
pub mod Weights
pub mod Decided
