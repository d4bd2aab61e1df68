pub mod Clones
pub mod Descriptions
pub mod Faults
pub mod Places
pub mod Opcodes
