pub mod Fitting
pub mod Places
pub mod Texts
pub mod Reading
pub mod CommandWord
pub mod Printing
