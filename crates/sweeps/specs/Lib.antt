pub mod Firsts
pub mod Shown
pub mod Tallies
pub mod Sweeps
pub mod Policies
pub mod Ahead
pub mod Texts
