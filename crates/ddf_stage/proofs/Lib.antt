pub mod Gates
pub mod Giving
pub mod DeskReads
pub mod Between
pub mod Owned
