pub mod Local
pub mod Reduced
pub mod Ends
pub mod Statements
