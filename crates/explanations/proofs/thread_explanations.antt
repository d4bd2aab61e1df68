mod Paths
mod Runs
mod Threads
mod Waiting
