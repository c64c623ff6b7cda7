pub mod Placement
pub mod Needs
pub mod Levels
pub mod Cells
pub mod Copies
