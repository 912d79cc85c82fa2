pub mod Apart
pub mod Cells
mod Examples
pub mod Saying
pub mod There
