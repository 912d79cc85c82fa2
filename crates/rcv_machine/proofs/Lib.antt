pub mod Agreeing
pub mod Knowing
pub mod Naming
pub mod Telling
pub mod Exactly
pub mod Passing
