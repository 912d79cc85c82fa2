pub mod Places
pub mod Keeping
pub mod Passing
pub mod Marking
pub mod Receiving
pub mod Dropping
pub mod Sound
pub mod Going
pub mod Showing
pub mod Fating
pub mod Legal
mod Examples
