pub mod Turned
pub mod Conflicting
pub mod Cases
pub mod Accesses
pub mod Lasting
pub mod Told
pub mod Laws
