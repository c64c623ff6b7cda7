pub mod ElementValue
pub mod Elements
pub mod Spares
pub mod Vendors
pub mod Bits
pub mod NoteRecords
pub mod Slots
pub mod Building
