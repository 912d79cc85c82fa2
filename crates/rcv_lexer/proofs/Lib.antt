pub mod Fitting
pub mod Scanning
pub mod Once
pub mod Refusing
pub mod TokenBytes
pub mod Examples
