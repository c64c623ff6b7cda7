pub mod Steps
pub mod Full
pub mod Refusing
pub mod Ready
pub mod Tried
pub mod Committed
pub mod Asked
pub mod Trying
