pub mod Variables
pub mod Adding
