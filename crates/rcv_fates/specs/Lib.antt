pub mod Fates
pub mod Laws
pub mod Sends
pub mod Record
