pub mod Lists
pub mod CommittedSeats
pub mod KeptSlots
pub mod RecordsHeld
pub mod Common
