pub mod Events
pub mod Local
