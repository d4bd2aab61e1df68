pub mod Numbered
pub mod Made
pub mod Told
pub mod Messages
