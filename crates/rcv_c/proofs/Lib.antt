pub mod Values
pub mod Handles
pub mod Opened
pub mod Events
