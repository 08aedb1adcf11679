pub mod Bytewise
pub mod Between
pub mod Means
pub mod Faults
pub mod Shapes
