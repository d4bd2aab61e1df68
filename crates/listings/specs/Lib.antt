pub mod class_listings
pub mod disasm
pub mod printed_names
