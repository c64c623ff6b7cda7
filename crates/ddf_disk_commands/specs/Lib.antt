pub mod Disk
pub mod Quiet
pub mod Examine
pub mod LabelRefusal
pub mod Label
