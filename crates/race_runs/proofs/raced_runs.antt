mod Entries
mod Passed
mod Replayed
mod Turned
