pub mod run_steps
pub mod vector_clocks
pub mod last_accesses
pub mod race_detector
