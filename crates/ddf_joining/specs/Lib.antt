pub mod Joining
pub mod Telling
pub mod JoinValue
pub mod Importing
