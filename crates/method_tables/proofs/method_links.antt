pub mod Lists
pub mod Numbering
pub mod ByName
pub mod Telling
pub mod Found
pub mod Naming
pub mod Selecting
pub mod Walking
