pub mod Forms
pub mod Written
pub mod Reading
pub mod Output
pub mod Facts
pub mod Vectors
