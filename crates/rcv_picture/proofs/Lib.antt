mod Examples
pub mod Chains
pub mod Escapes
pub mod Lists
pub mod Naming
pub mod Pictures
pub mod Size
pub mod Spelling
