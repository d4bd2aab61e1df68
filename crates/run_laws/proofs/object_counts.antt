pub mod Counted
pub mod CountedTable
pub mod CountedSteps
pub mod Bounded
pub mod References
