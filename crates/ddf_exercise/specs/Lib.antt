pub mod Draws
pub mod Steps
pub mod Blocks
pub mod Taking
pub mod Exercise
