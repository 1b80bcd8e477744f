pub mod Accepted
pub mod Crashes
pub mod Counting
pub mod Facts
pub mod Vectors
