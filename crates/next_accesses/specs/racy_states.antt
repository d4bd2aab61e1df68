pub mod Racy
