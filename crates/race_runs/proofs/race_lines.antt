mod Adding
mod Naming
