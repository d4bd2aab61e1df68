pub use Rattle.class_tree.specs.View
pub use Rattle.class_tree.specs.CodePlace
pub mod FileReading
pub mod Decoding
pub mod profile
