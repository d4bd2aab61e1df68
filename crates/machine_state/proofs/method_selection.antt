mod Reading
mod Selecting
mod Running
mod Objects
mod Searching
