pub mod Building
pub mod Values
