pub mod Largest
pub mod Sets
pub mod Tables
pub mod Facts
