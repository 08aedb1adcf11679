pub mod Review
pub mod Points
pub mod TextPoints
