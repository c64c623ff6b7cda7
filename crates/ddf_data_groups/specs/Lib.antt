pub mod Beside
pub mod Going
pub mod Labelled
