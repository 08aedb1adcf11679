pub mod Truth
pub mod Digits
pub mod SetLaws
pub mod Found
pub mod Machine
pub mod Counting
pub mod Checks
