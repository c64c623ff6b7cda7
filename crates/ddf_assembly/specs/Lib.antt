pub mod Group
pub mod Slots
pub mod Reading
pub mod Settled
pub mod Assembled
pub mod Held
