pub mod next_races
pub mod reached_races
