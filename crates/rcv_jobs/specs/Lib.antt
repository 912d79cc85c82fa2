pub mod Texts
pub mod Running
pub mod Left
pub mod Jobs
