pub mod Handlers
pub mod Leads
pub mod Meanings
pub mod Successors
pub mod Local
pub mod Untouched
