pub mod Steps
pub mod Expressions
pub mod Values
pub mod Attempts
pub mod Codes
