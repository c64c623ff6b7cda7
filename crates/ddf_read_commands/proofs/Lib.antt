pub mod ArrayUse
pub mod ReadBlocks
mod ReadCalls
pub mod LeftOut
mod Printing
mod ReadEnds
mod ComparedSlots
pub mod Scrubbed
pub mod Common
