pub mod Saying
pub mod Spelled
pub mod ReadBack
pub mod Examples
