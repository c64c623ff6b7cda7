pub mod Call
pub mod Status
pub mod Tells
pub mod Answers
pub mod Ends
pub mod Costs
