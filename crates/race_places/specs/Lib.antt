pub mod run_actions
pub mod numbering
pub mod named_actions
pub mod action_detector
