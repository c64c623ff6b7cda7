pub mod Endings
mod Events
mod Happening
mod StepsCopies
mod SeatsShown
mod AnotherGroup
mod Cut
mod LabelAside
mod StepsMembers
mod MembersBehind
mod JoinedMembers
mod CutJoins
mod JoinsAgain
