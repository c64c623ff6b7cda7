pub mod Writing
pub mod WriteRefused
pub mod RowWrites
pub mod Filling
pub mod Beside
pub mod Keeping
pub mod Looking
pub mod Gathering
