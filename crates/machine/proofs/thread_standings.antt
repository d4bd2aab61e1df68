mod Enabled
pub mod Tops
mod Statuses
pub mod States
