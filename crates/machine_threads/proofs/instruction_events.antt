mod Families
mod Picks
mod Classes
mod Steps
