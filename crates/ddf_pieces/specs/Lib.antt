pub mod Pieces
pub mod Reading
pub mod Coming
pub mod Writing
