pub mod Canonical
pub mod Printable
pub mod Laws
