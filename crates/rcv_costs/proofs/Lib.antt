pub mod Beginnings
pub mod Calming
pub mod Sessions
pub mod Runs
pub mod Sums
pub mod Lists
pub mod Going
pub mod Telling
pub mod Adding
pub mod Naming
pub mod Again
mod Examples
