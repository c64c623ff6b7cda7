pub mod Histories
pub mod Found
