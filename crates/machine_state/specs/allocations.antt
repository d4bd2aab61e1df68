pub mod Allocated
pub mod Filled
