pub mod class_rules
pub mod limits_of_linking
pub mod refusal
pub mod resolution
