pub mod Codes
pub mod Kept
pub mod Chains
pub mod Waiters
pub mod Fields
pub mod Numbers
