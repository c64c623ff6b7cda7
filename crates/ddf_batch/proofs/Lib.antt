pub mod LineRuns
pub mod Runs
pub mod Events
