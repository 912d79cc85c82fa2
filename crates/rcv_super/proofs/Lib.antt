pub mod OneByOne
pub mod Apart
pub mod Bases
pub mod Leaving
pub mod Returning
pub mod Uniting
pub mod Mixed
pub mod Parted
pub mod Besides
pub mod Behind
mod Crossing
mod Ending
mod InOrder
mod OneEntry
mod Polling
mod Stepping
mod Turning
