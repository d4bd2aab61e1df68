pub mod Events
pub mod Unpicked
pub mod Settling
