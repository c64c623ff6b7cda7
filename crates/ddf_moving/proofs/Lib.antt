pub mod Lengths
pub mod Laid
pub mod Rows
pub mod Slots
pub mod Can
pub mod Free
pub mod Alike
pub mod Kept
