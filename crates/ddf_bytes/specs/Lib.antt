pub mod Bytes
pub mod Choices
pub mod Counts
pub mod Guids
pub mod Memory
pub mod Stamps
pub mod Std
pub mod Streams
