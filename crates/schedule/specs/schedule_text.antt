pub mod CommandWord
pub mod Digits
pub mod Either
pub mod Names
pub mod Outcomes
pub mod Printing
pub mod Recordings
pub mod Text
