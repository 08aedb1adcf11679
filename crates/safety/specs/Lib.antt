pub mod Runs
pub mod Rule
pub mod Questions
pub mod Laws
