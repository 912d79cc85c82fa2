mod Examples
pub mod Growing
mod LineFeed
mod Machines
pub mod Names
pub mod Plain
mod Sorts
mod Tables
