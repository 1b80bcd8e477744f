pub mod OwnRow
pub mod Whole
pub mod Vectors
