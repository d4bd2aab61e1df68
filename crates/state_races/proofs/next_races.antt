pub mod Silent
pub mod Conflicting
pub mod Standing
