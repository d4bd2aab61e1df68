mod LineLaws
mod Ties
mod IntLines
mod Orders
mod Lists
pub mod Places
pub mod SameLaws
