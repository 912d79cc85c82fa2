pub mod Stepping
pub mod Tables
pub mod Seeing
pub mod Safety
pub mod Recording
mod Computing
mod Examples
mod NeedsAcceptance
