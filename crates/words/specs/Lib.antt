pub mod Stops
pub mod Tree
pub mod Names
