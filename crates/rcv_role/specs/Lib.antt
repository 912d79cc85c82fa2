pub mod Part
pub mod Ends
pub mod Cell
pub mod Poll
pub mod Run
pub mod Laws
