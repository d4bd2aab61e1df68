pub mod Rules
pub mod Finding
pub mod Declared
pub mod Suspected
