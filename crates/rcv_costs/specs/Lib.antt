pub mod Rehearsal
pub mod Losses
pub mod Sampling
pub mod Costs
pub mod Named
pub mod Laws
