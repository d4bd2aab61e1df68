pub mod Going
pub mod Exits
pub mod Given
pub mod Returned
