pub mod Passing
pub mod Reading
pub mod Taking
pub mod OneCommand
pub mod Deciding
mod Examples
