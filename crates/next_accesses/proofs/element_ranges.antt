pub mod Shown
pub mod Chars
pub mod Counted
