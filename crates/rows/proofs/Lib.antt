mod Unions
pub mod Numbers
mod Pairs
