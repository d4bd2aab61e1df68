pub mod finder
pub mod race_lines
pub mod raced_runs
