pub mod Rows
pub mod KindsOfRows
pub mod Constants
pub mod Classes
pub mod Fields
