pub mod Machines
pub mod Safe
pub mod Restamped
pub mod Laws
