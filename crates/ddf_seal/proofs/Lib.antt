pub mod CrcSteps
pub mod CrcTables
pub mod Placing
pub mod Same
pub mod Spelled
pub mod Records
pub mod Seals
pub mod Common
