mod Mapped
mod Marked
pub mod Runs
pub mod Steps
pub mod Looks
mod Finding
mod Opened
pub mod MemorySteps
pub mod Fronts
