mod Picks
mod Complete
