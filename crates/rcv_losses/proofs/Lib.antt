mod Examples
mod Restarting
pub mod Worst
pub mod Summing
pub mod Saying
