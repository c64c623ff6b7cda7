pub mod Staged
pub mod Moments
pub mod Stops
