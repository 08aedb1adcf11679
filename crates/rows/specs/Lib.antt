pub mod Lists
pub mod Rules
pub mod Room
pub mod Drafts
pub mod Gathering
