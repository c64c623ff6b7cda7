pub mod Labels
mod Commands
mod Lives
