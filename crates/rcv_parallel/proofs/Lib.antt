pub mod InLane
pub mod LaneWalks
pub mod Joining
pub mod Sorting
pub mod EachRole
pub mod Beginnings
pub mod OneLane
pub mod Splitting
pub mod ToStages
pub mod OfStages
pub mod TextLanes
mod EachLane
mod Examples
mod LoopExamples
mod NeedsOrder
pub mod InLanes
pub mod LaneNexts
pub mod LaneAccepted
pub mod LaneSteps
pub mod LaneSession
pub mod LaneLaws
pub mod LaneTraces
pub mod LaneTable
mod LaneBeside
