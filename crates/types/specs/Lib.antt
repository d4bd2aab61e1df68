pub mod View
pub mod Superclasses
pub mod described_types
pub mod method_code
pub mod subclass_table
