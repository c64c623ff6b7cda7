pub mod Named
pub mod Slots
pub mod NewArray
pub mod Spare
pub mod FirstCauses
pub mod Usable
pub mod Request
