pub mod InOrder
pub mod Told
mod Named
