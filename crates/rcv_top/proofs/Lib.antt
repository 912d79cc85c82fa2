pub mod Writing
pub mod Headlines
pub mod Rooms
pub mod Adding
pub mod Asking
pub mod Sessions
pub mod Summing
pub mod Answering
pub mod SameJson
pub mod OneSummary
pub mod OneLine
pub mod Counting
pub mod Runs
pub mod Prepared
pub mod ManyRuns
pub mod Outcomes
pub mod Workers
pub mod Ending
pub mod ManyExist
pub mod RoleTexts
pub mod TableTexts
pub mod Existing
pub mod Again
pub mod Traceless
pub mod Asked
mod Examples
mod ManyExamples
mod Unseen
mod UnseenLater
mod HostHeadline
mod LaneProtocol
mod LaneTold
mod LaneHeadline
