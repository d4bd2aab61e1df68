pub mod Numbered
mod Typed
