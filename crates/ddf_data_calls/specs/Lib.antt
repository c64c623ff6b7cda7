pub mod Floors
pub mod Reading
pub mod Calls
pub mod Promised
pub mod Agreed
