pub mod Counted
pub mod Laters
pub mod Preparing
pub mod Crossing
mod Examples
