pub mod Entries
pub mod Whole
pub mod Texts
pub mod Vectors
