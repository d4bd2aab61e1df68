mod Finding
mod FindingDownwards
mod Counting
pub mod Repeating
mod Shared
mod Copying
mod Committing
pub mod Staying
pub mod Finishing
mod Recording
mod Opening
