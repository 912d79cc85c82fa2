pub mod Feeds
pub mod Openings
pub mod Waiting
