pub mod Noting
pub mod Positions
pub mod Steps
pub mod Views
pub mod Targets
pub mod Begun
pub mod Beginnings
pub mod PlanMade
mod SpareViews
pub mod SeatsThere
pub mod SeatsKept
mod PlanFits
pub mod PlanFitted
pub mod PlanKept
mod Examples
mod Coming
mod NextStep
mod Recovery
pub mod Writings
mod Further
mod TargetCells
mod RoundsMore
mod OneRound
mod NextRound
mod RoundsThen
mod PositionRun
mod OpeningRun
mod RunCame
mod Ran
mod AllRounds
pub mod Costs
mod FillRan
mod PlanRan
mod RebuildEnds
pub mod BackCosts
mod RoomRun
mod BackRan
mod BackChosen
pub mod BackMade
pub mod BackCame
mod BackSince
mod PlanBack
mod BackOpening
mod BackFits
mod BackRuns
mod BackDone
mod BackEnds
pub mod OneSeat
