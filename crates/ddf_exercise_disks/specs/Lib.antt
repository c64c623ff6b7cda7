pub mod Well
pub mod Ending
pub mod Standing
pub mod Storing
pub mod Zeros
pub mod Lost
