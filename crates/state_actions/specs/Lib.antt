pub mod changed_monitors
pub mod class_ends
pub mod looked_classes
pub mod meant_before
pub mod wait_ends
