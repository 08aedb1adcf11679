pub mod Answers
pub mod Columns
pub mod States
pub mod Machine
pub mod Tables
pub mod Places
pub mod Laws
