pub mod StepsWritten
pub mod Recovering
pub mod Keeping
pub mod Beside
pub mod LeftWriting
pub mod Outcomes
pub mod ChangeEnds
pub mod ShowEnds
mod ToldGroup
pub mod Requested
pub mod SeatReferences
pub mod FewCalls
pub mod Costs
