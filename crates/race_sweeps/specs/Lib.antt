pub mod race_sweeping
