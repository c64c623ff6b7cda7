pub mod Use
pub mod Read
pub mod Scrub
