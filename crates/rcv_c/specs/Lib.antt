pub mod Status
pub mod Owned
pub mod Refusals
pub mod Opening
pub mod Telling
