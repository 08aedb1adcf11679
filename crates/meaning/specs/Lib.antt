pub mod Named
pub mod Declarations
pub mod Forms
pub mod Schemes
pub mod Means
