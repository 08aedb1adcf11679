mod Loops
mod Turns
mod Creators
mod Verdicts
