mod Asked
mod Known
mod Placed
mod Written
mod Keeping
mod Leaving
mod FewCalls
mod Both
pub mod Ending
