pub mod Whole
pub mod Replaced
pub mod Blocks
pub mod Blank
pub mod Aside
pub mod Going
pub mod Beside
