pub mod Afters
pub mod Kept
pub mod Clear
pub mod Made
pub mod Lists
