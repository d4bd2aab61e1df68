pub mod named_fields
pub mod instance_variables
