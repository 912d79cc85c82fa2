pub mod Standing
pub mod Descent
pub mod Refusals
