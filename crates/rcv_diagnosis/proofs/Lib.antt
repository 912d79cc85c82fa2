pub mod Saying
pub mod Texts
pub mod Showing
pub mod Made
pub mod Judged
pub mod Parting
pub mod Replays
