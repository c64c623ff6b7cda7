pub mod Gate
pub mod Desks
pub mod Laid
pub mod Staging
