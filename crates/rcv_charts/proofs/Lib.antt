mod Counted
pub mod Cutting
mod Examples
mod Growth
mod Holding
mod Lines
mod Ranges
mod Reached
mod Showing
mod Stepping
mod Together
