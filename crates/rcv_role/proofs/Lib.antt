pub mod Parts
pub mod Reaching
pub mod Slots
pub mod Going
pub mod Sending
pub mod Receiving
pub mod Meeting
pub mod Running
pub mod Lawful
mod Examples
mod Worked
