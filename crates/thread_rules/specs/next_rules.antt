pub mod Rules
pub mod Meant
