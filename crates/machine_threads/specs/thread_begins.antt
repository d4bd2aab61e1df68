pub mod First
pub mod Callees
pub mod Runs
pub mod Initial
pub mod Threads
