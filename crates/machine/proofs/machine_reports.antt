pub mod Quiet
pub mod Firsts
