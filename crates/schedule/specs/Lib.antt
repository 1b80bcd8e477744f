pub mod Four
pub mod Schedule
pub mod Questions
pub mod Counting
pub mod Facts
pub mod Vectors
