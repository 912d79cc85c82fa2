pub mod Around
pub mod Dialogue
pub mod Laws
pub mod Openings
pub mod Answering
pub mod Talking
pub mod Calls
pub mod Conversing
