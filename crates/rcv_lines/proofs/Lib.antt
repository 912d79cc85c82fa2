pub mod Accepting
pub mod Ascending
pub mod Cuts
pub mod Ends
mod Examples
pub mod Fielded
pub mod FinalEntries
pub mod FinalTexts
pub mod FirstWrong
pub mod Joining
pub mod Lacking
pub mod Naming
pub mod OneJournal
pub mod OneThing
pub mod Order
pub mod Parses
pub mod Places
pub mod Progress
pub mod Regrouped
pub mod Saying
pub mod Splitting
pub mod SmallValues
mod TextExamples
pub mod Texts
pub mod Turns
pub mod Views
pub mod Deciding
pub mod TakenOrWrong
