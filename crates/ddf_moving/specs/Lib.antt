pub mod Numbers
pub mod Places
pub mod Copies
pub mod Obstacles
pub mod Moves
