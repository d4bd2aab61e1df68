pub mod Linked
pub mod Declaration
pub mod View
pub mod Site
