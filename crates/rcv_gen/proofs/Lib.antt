mod Examples
pub mod Lengths
pub mod Lists
