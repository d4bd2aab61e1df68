pub mod Watched
