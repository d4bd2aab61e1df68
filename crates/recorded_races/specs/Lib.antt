pub mod record_races
