pub mod Rows
pub mod Chosen
pub mod Called
pub mod Layout
pub mod Bounds
pub mod Made
pub mod Tables
pub mod Carried
