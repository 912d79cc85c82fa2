pub mod Counts
pub mod Saves
