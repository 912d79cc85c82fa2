pub mod Little
pub mod Numbering
pub mod Trying
pub mod Opening
pub mod Columns
pub mod Counting
pub mod Listing
pub mod Lining
mod Examples
