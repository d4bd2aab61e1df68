pub mod Links
pub mod class_rows
pub mod linked_calls
pub mod linked_methods
pub mod linked_operands
pub mod method_rows
pub mod type_tables
