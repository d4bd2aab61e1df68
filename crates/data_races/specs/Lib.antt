pub mod HappensBefore
pub mod Variables
pub mod Actions
pub mod EventActions
pub mod Races
pub mod RaceTest
pub mod race_examples
pub mod race_tests
