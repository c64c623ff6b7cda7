pub mod Shapes
pub mod Starts
pub mod Entries
pub mod Finds
pub mod Firsts
pub mod Capacity
pub mod ByDisk
pub mod Common
