pub mod Halves
pub mod Back
pub mod Going
pub mod Parting
