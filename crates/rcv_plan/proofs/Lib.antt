mod Rows
pub mod Shifting
mod Due
mod Groups
mod Found
mod Fresh
mod Crashes
mod Telling
mod Hosting
pub mod Fitting
mod Items
pub mod Exactly
pub mod Once
pub mod Answered
pub mod Few
mod Cases
mod Examples
pub mod Alone
