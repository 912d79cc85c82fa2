pub mod Kept
pub mod Recoveries
pub mod Messages
pub mod Story
pub mod Shown
pub mod Stacks
pub mod Marks
pub mod Laws
