pub mod NoRoom
pub mod Handled
pub mod Caught
pub mod Tops
pub mod OnTop
