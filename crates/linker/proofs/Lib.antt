pub mod Lists
pub mod Decoded
pub mod Stages
pub mod Telling
