pub mod Settled
pub mod Blocks
pub mod Without
pub mod Plain
pub mod Labelled
pub mod Asking
