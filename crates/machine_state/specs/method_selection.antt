pub mod Receivers
pub mod Rows
pub mod Selected
pub mod Run
