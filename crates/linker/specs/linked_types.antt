pub mod Types
pub mod Components
pub mod Tested
