pub mod Slots
pub mod Shown
pub mod Choice
pub mod Taking
pub mod Pairs
pub mod Conflicts
pub mod Names
pub mod Assembled
