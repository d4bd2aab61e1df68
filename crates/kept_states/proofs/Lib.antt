pub mod One
pub mod Read
pub mod Same
pub mod Stays
pub mod Written
