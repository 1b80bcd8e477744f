pub mod Buffer
pub mod Lengths
pub mod Given
pub mod Texts
