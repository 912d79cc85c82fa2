pub mod Counting
pub mod Kept
pub mod Saying
pub mod Adding
pub mod Wiring
pub mod Determined
pub mod Summing
mod Examples
