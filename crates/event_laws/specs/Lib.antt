pub mod access_outcomes
pub mod event_changes
pub mod entered_monitors
pub mod meant_monitors
