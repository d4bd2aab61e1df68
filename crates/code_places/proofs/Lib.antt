pub mod Counted
pub mod Tables
pub mod Numbered
pub mod MethodPlaces
