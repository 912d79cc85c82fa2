pub mod Judged
pub mod Closing
pub mod Could
pub mod Laws
