mod Passing
mod Turning
mod Continuing
