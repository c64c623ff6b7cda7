pub mod Faults
pub mod Sections
pub mod Sound
pub mod Encoded
pub mod Decoded
pub mod Common
