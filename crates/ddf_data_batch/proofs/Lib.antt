pub mod Own
pub mod Ends
pub mod Through
