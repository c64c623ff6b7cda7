pub mod Disks
pub mod Turns
pub mod Stages
pub mod Views
pub mod Makes
pub mod Founded
pub mod Words
pub mod Writable
