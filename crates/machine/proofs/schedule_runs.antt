pub mod Repeated
pub mod Joined
