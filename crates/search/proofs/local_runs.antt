mod Rows
mod Events
mod Frames
