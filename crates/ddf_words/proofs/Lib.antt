mod Arrays
mod Blocks
pub mod Commands
pub mod Dashes
mod Disks
mod Elements
mod Faults
mod Fields
mod Fitting
mod Levels
pub mod Lists
mod Guids
pub mod Places
mod Requests
mod Labels
mod Grammar
mod Names
mod Numbers
pub mod Finds
pub mod Wishes
pub mod Imports
pub mod Batches
pub mod LineWords
pub mod Texts
mod ExerciseStanding
mod ExerciseWrongly
mod ExerciseLeading
mod ExerciseNumbers
mod ExerciseTelling
