pub mod Moments
pub mod Joins
pub mod Calls
pub mod Events
pub mod Beginnings
