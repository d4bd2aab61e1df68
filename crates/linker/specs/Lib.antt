pub mod Aside
pub mod Linking
pub mod Telling
pub mod class_constants
pub mod field_links
pub mod linked_types
pub mod operand_rows
