pub mod Group
pub mod Seated
pub mod Changing
pub mod Leading
