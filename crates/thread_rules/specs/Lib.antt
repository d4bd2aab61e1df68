pub mod needed_classes
pub mod next_rules
