pub mod Later
pub mod Preparing
pub mod Laws
