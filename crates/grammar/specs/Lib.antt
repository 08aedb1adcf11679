pub mod Limits
pub mod Bytes
pub mod Items
pub mod Words
pub mod Entries
pub mod Reader
pub mod Claims
pub mod Texts
