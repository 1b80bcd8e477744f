pub mod Answers
pub mod Vectors
