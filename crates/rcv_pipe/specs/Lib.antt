pub mod Feeds
pub mod Buffer
pub mod Pipe
pub mod Opening
