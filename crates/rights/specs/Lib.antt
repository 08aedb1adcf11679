pub mod Limits
pub mod Refusals
pub mod Sets
pub mod Firsts
