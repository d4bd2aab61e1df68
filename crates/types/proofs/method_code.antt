pub mod Firsts
pub mod Rights
pub mod Declared
