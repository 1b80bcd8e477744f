pub mod Test
pub mod Below
pub mod Answer
pub mod Filled
pub mod Quoted
pub mod Question
pub mod Numbered
