pub mod Monitors
mod Going
