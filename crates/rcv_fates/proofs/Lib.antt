pub mod Clocks
pub mod Keeping
pub mod Messages
pub mod Rising
pub mod Searching
pub mod Joining
pub mod Undoing
pub mod Recording
mod Examples
