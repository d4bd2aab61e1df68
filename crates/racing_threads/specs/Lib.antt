pub mod Racing
pub mod free_events
pub mod lasting_races
