pub mod Counted
pub mod CountedWorlds
pub mod CountedTable
pub mod CountedSteps
pub mod Runs
