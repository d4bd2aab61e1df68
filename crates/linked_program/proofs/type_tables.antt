pub mod PoolRows
pub mod CaughtClasses
