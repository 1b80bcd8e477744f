pub mod Whole
pub mod Conclusion
pub mod Vectors
