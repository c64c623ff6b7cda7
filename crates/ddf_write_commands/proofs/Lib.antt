pub mod Marked
pub mod Staying
pub mod Splitting
pub mod Unmoved
pub mod BelowFloors
pub mod StepFloors
pub mod BelowSteps
pub mod Courses
pub mod Opening
pub mod Closing
pub mod SlotsThere
pub mod PlanKept
mod PlanMade
mod Works
pub mod Costs
pub mod Parts
pub mod OnePlan
mod ResyncWorks
mod Between
pub mod Arrays
mod ResyncArray
pub mod Sparing
mod ResyncBlocks
mod PlanWritten
mod MarkedCells
mod BesideKept
mod WriteWorks
mod WriteArray
mod WriteBlocks
pub mod Since
pub mod Ended
mod Looked
mod BehindLook
mod Surely
mod WriteLooked
mod FirstPiece
pub mod WriteCalls
mod WriteTaken
mod WriteCame
