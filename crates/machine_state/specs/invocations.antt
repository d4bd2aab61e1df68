pub mod Entering
pub mod Calls
