pub mod Aside
pub mod Slots
