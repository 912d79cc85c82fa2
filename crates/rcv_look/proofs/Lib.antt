pub mod Passing
pub mod Reading
pub mod Taking
pub mod OneCommand
pub mod Deciding
pub mod Making
pub mod Asking
pub mod Ending
pub mod Answering
pub mod Telling
pub mod Journals
pub mod Sessions
pub mod Guided
pub mod Plain
pub mod Pictures
mod Examples
