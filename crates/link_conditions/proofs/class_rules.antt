pub mod Lists
pub mod Packages
pub mod Declared
pub mod Redeclared
pub mod Found
pub mod Suspected
