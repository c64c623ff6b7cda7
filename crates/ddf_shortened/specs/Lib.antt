pub mod SlotEnds
pub mod Looking
pub mod EndsOf
pub mod Sizes
pub mod ShortenedBays
