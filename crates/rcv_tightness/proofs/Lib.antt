pub mod Turns
pub mod Reaching
pub mod Marking
pub mod Firsts
pub mod Meeting
pub mod Telling
pub mod Failing
pub mod ToldMeeting
mod Examples
