pub mod Stamps
pub mod Retold
pub mod Laws
pub mod Closing
pub mod Text
