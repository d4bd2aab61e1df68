mod Places
pub mod Units
pub mod TextLaws
pub mod PoolLaws
pub mod Passing
