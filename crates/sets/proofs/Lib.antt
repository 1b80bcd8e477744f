pub mod Bits
pub mod Theorem
