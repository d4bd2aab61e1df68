pub mod Places
pub mod Arrays
pub mod Parameters
pub mod Found
