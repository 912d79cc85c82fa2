pub mod Heat
pub mod Words
pub mod Shown
pub mod Laws
