pub mod Sources
pub mod Pools
pub mod Bodies
