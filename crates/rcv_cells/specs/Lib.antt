pub mod Home
pub mod Making
pub mod Running
pub mod Ahead
