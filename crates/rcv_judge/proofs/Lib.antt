pub mod Taking
pub mod Unique
pub mod FirstWrong
pub mod Closings
pub mod Sends
pub mod Deciding
pub mod ClosingsJudged
pub mod Doing
