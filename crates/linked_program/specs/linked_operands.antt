pub mod Catches
