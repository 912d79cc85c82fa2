pub mod Standing
pub mod Channels
pub mod Stepping
pub mod Ending
pub mod Splitting
mod Examples
