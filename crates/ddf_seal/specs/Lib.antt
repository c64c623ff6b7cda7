pub mod Crc
pub mod Seal
pub mod Unread
pub mod Records
