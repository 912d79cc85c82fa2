pub mod Answers
pub mod Kinds
pub mod Laws
pub mod Left
pub mod Lines
pub mod Names
pub mod Numbers
pub mod Reading
