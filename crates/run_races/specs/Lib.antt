pub mod labels
pub mod told_races
pub mod race_finder
pub mod named_races
