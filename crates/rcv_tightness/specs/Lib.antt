pub mod Met
pub mod Laws
pub mod Told
