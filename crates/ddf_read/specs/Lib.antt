pub mod Reading
pub mod Given
pub mod Stretches
pub mod Kinds
pub mod Along
pub mod Sums
pub mod Missing
pub mod Refused
