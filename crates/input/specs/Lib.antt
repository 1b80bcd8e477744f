pub mod Received
pub mod Vectors
