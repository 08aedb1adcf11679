pub mod Memory
pub mod Obedience
