pub mod Fields
pub mod Moves
pub mod Places
pub mod Standing
