pub mod Told
pub mod Forgetting
pub mod Hindsight
pub mod Laws
