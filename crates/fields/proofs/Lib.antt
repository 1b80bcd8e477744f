pub mod Prefix
pub mod Forms
pub mod Bits
pub mod Digits
pub mod Written
pub mod OneAnswer
