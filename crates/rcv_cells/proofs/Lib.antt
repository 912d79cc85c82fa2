pub mod Between
pub mod Meeting
pub mod Pushing
pub mod Ahead
pub mod Rounds
mod Starting
mod Wiring
mod Logs
mod Examples
pub mod Bases
pub mod Running
pub mod Crossing
