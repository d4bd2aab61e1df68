pub mod Findings
pub mod Owned
