pub mod continued_runs
pub mod policies
pub mod recorded_replays
pub mod traced_runs
pub mod workers
pub mod worlds
