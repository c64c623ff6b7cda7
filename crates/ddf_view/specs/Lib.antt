pub mod View
pub mod Reading
pub mod Spares
pub mod Shows
pub mod Differ
pub mod Alike
pub mod Readable
pub mod Readings
