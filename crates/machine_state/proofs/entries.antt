pub mod Changing
pub mod Entering
