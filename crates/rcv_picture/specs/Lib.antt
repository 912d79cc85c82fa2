pub mod Drawn
pub mod Laws
pub mod Looks
pub mod Names
pub mod Size
pub mod Tree
pub mod WellFormed
