pub mod Next
pub mod Added
pub mod Called
