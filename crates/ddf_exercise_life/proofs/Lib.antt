mod Told
mod Calm
mod Turns
mod Taken
mod Exercised
