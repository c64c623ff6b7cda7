pub mod Long
pub mod Rows
pub mod Whole
pub mod Laid
pub mod Moments
pub mod Stops
