pub mod RunMethods
pub mod BuiltIns
pub mod Calling
pub mod MessageConstructors
pub mod Receivers
pub mod Selecting
pub mod ClassObjects
mod Prints
mod SpecialReceivers
pub mod Directs
pub mod Statics
mod Plain
