pub mod Stacks
pub mod Meant
pub mod Variables
pub mod Fields
pub mod Objects
pub mod Receivers
