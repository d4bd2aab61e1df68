mod Gathering
mod LocalEvents
mod Passing
mod Runs
mod Seen
mod Traced
