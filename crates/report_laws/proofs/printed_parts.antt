pub mod Lines
pub mod Forging
