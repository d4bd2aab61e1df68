pub mod Rounds
pub mod Needs
pub mod Holders
pub mod Circles
