mod Lines
mod Ruled
pub mod Texts
mod Receiving
mod Sourced
pub mod Forking
pub mod Unreading
mod Going
