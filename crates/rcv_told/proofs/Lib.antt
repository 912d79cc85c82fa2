pub mod Telling
pub mod Cutting
pub mod LatestCuts
pub mod Failing
pub mod ReadOff
pub mod Hindsight
pub mod Memories
pub mod Adding
pub mod Lengths
pub mod Channels
pub mod Staying
pub mod Leaving
pub mod Losing
pub mod Remembering
mod Worked
mod Examples
