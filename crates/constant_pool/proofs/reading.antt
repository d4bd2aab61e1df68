pub mod Laws
pub mod Fields
pub mod Loop
