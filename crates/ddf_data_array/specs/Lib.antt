pub mod Allowed
pub mod Rows
pub mod Changing
pub mod Moved
pub mod Kept
pub mod Fewer
pub mod History
