pub mod Merge
pub mod Shown
