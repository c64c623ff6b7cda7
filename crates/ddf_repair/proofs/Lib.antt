pub mod Halving
mod Examples
pub mod Firsts
pub mod Begins
pub mod Numbers
pub mod Usable
pub mod Marks
pub mod Replaced
pub mod BegunExtents
pub mod BegunUsable
pub mod Rooms
