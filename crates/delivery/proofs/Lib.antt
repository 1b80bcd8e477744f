pub mod Heard
pub mod Sent
