pub mod Fronts
pub mod NewEntries
