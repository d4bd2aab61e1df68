pub mod Labelled
mod Watching
