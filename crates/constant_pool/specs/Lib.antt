pub mod View
pub mod Texts
pub mod Checking
pub mod Lengths
pub mod PoolReading
pub mod descriptors
pub mod reading
