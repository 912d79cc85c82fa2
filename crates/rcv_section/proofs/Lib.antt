pub mod Scans
pub mod Sought
pub mod Fronts
pub mod Places
pub mod Titles
pub mod Texts
mod Examples
