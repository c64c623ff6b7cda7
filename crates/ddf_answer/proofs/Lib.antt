mod Told
pub mod Causes
pub mod Rises
pub mod Costs
pub mod Common
