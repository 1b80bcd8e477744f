pub mod Calls
pub mod Rounds
pub mod Ran
pub mod Decision
