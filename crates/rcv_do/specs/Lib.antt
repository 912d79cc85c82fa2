pub mod Code
pub mod Counting
pub mod Rows
pub mod Copying
pub mod Tracing
pub mod Faults
pub mod Depths
