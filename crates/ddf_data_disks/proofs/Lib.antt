pub mod Alike
pub mod Ended
pub mod Records
pub mod Blocks
pub mod SlotReads
pub mod Aside
pub mod Staying
pub mod Calls
