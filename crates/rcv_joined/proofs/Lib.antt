mod Joining
pub mod Places
mod Examples
