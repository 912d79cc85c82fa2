pub mod Points
pub mod Lists
pub mod Places
pub mod Ring
pub mod Views
pub mod Shown
