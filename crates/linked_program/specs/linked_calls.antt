pub mod Sources
pub mod Callees
pub mod Found
pub mod Selections
pub mod Calls
