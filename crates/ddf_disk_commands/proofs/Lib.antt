mod Partway
mod Told
mod ExamineEnds
pub mod Chosen
mod Fits
mod LabelEnds
mod Labelled
mod LabelCosts
mod Quiet
pub mod Common
