pub mod Sizes
pub mod Range
pub mod Codes
pub mod Counts
pub mod Silent
pub mod Promises
pub mod Reasons
pub mod Vectors
