pub mod Histories
pub mod Commands
pub mod Life
