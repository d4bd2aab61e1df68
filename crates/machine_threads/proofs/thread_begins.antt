pub mod First
pub mod Rows
pub mod Selecting
pub mod Declared
pub mod Starting
pub mod Placed
pub mod Calling
pub mod Following
