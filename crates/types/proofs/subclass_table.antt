pub mod Pushing
pub mod Growing
pub mod SetBits
pub mod Reading
pub mod Naming
pub mod Settling
pub mod Making
pub mod Placing
