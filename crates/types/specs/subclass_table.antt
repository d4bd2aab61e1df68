pub mod Columns
pub mod Rows
pub mod Made
pub mod First
pub mod Settled
