pub mod Kept
pub mod Pointed
pub mod Stands
pub mod Repeated
pub mod Going
pub mod Words
pub mod Entries
