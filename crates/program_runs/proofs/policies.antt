pub mod TurnEvents
pub mod OneTurn
pub mod Turning
pub mod Orders
pub mod Unpicked
pub mod Picked
pub mod Able
pub mod Drawing
mod DrawnThreads
pub mod GivenTurns
pub mod Mixing
pub mod Recorded
