pub mod Methods
pub mod Numbers
pub mod Calls
pub mod Describing
pub mod Named
pub mod Selected
