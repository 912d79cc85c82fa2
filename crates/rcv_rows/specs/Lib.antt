pub mod Told
pub mod Adding
pub mod Laws
