pub mod Commands
pub mod Life
