pub mod Stray
pub mod Recovery
pub mod Ready
pub mod Committed
pub mod Mending
pub mod Behind
