pub mod LineCount
pub mod Judging
pub mod Moving
pub mod Once
pub mod Existing
pub mod Journals
