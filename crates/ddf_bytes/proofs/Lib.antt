mod Streams
mod HexDigits
pub mod Nones
pub mod Common
