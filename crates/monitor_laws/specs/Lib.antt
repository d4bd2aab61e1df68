pub mod owners
