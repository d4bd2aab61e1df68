pub mod Links
pub mod Chains
pub mod Slots
pub mod Tables
pub mod Numbers
