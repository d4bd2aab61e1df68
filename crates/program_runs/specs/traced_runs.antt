pub mod Locals
pub mod Telling
pub mod Traces
pub mod Windows
