pub mod Input
pub mod Refusals
pub mod Line
pub mod Laws
