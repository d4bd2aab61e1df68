pub mod Places
pub mod Leaving
pub mod Returned
pub mod Unwound
