mod Joined
mod Kept
