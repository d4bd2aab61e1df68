pub mod Quick
pub mod BuiltIns
pub mod Meant
pub mod Enabled
pub mod Instructed
pub mod Tops
pub mod Ends
