mod Events
mod Making
mod Testing
mod Storing
mod Made
