pub mod Clash
pub mod Joined
pub mod Moving
