pub mod Lists
pub mod ClassesAndMembers
pub mod Missing
pub mod Telling
pub mod Calling
pub mod FieldMeanings
pub mod Sites
pub mod Leading
