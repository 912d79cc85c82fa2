pub mod Protocols
pub mod Telling
pub mod Rounds
pub mod AnswersGiven
pub mod OneWord
pub mod Calls
pub mod CallsFaults
