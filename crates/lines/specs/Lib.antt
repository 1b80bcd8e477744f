pub mod Lines
pub mod Vectors
