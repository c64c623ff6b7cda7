pub mod Slots
pub mod Calls
pub mod Stops
pub mod Members
pub mod Strangers
pub mod Found
pub mod Alone
pub mod Young
