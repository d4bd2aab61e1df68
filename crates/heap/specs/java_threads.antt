pub mod Statuses
pub mod Table
