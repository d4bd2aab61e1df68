pub mod Going
pub mod Raced
