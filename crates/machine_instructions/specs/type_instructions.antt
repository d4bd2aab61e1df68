pub mod Leaving
pub mod Arrays
pub mod Words
