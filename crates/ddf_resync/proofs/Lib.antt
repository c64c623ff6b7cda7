pub mod Found
pub mod Failing
pub mod Comparing
pub mod Beside
pub mod Values
pub mod SeveralCells
pub mod Extents
pub mod Copied
pub mod CopyStep
pub mod Stops
pub mod Unread
pub mod Differing
pub mod FaultSlots
pub mod SetStep
pub mod Resynced
pub mod Leaves
mod Worked
