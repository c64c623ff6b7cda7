pub mod Agreeing
pub mod Compared
pub mod Scrubbing
pub mod Runs
pub mod Several
pub mod Resyncing
pub mod Copying
pub mod Setting
