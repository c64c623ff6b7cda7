pub mod Traits
pub mod Commands
pub mod Words
pub mod Batch
pub mod Lines
pub mod Input
pub mod Text
pub mod Asking
