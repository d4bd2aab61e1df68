pub mod Types
pub mod ComponentTypes
pub mod TestedClasses
