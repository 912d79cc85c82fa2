pub mod CanonicalText
pub mod Laws
pub mod Printing
