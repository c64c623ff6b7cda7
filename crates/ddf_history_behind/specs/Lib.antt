pub mod Behind
pub mod Commands
