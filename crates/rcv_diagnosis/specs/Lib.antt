pub mod Telling
pub mod Making
pub mod Diagnosing
pub mod Laws
