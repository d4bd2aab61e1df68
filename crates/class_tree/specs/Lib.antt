pub mod View
pub mod CodePlace
pub mod Conditions
pub mod builtin
