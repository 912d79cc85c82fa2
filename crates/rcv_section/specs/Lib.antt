pub mod Lines
pub mod Sections
pub mod Scanning
pub mod Laws
