pub mod Reading
pub mod Once
pub mod Examples
pub mod Declared
pub mod Answered
pub mod Formed
mod Cutting
pub mod Alone
pub mod Worked
pub mod Planned
mod Ruled
mod Called
