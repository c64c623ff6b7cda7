pub mod Sizes
pub mod Arrangement
pub mod Spots
