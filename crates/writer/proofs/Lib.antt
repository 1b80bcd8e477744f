pub mod Asked
pub mod RoundTrips
pub mod Vectors
