pub mod Answers
pub mod Parts
pub mod Vectors
