pub mod instruction_events
pub mod instruction_needs
pub mod machine_opening
pub mod pending_exceptions
pub mod thread_begins
pub mod thread_events
pub mod thread_wakes
pub mod waiting_instructions
