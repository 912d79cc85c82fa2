pub mod Splits
pub mod Lasts
pub mod Roles
mod Examples
