pub mod Given
pub mod Turns
pub mod OneRound
pub mod AllRounds
pub mod Whole
pub mod Searching
