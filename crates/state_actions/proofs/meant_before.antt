pub mod Ruling
pub mod Saying
