pub mod InOrder
pub mod Kept
