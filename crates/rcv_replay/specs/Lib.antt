pub mod Cutting
pub mod Replaying
pub mod Lines
pub mod Laws
