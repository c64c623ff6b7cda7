pub mod Seats
pub mod Writing
pub mod Blocks
