pub mod finds
pub mod looking
pub mod event_actions
