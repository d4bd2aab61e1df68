pub mod Lines
pub mod Points
pub mod Methods
pub mod There
