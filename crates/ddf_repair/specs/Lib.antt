pub mod Accept
pub mod First
pub mod Spares
pub mod Begin
pub mod Choose
pub mod Places
