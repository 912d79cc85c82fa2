mod Calming
mod Following
pub mod Plans
pub mod Taken
pub mod SameBytes
mod Examples
