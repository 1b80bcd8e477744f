pub mod Counted
pub mod HeardRows
pub mod Gathered
pub mod Places
pub mod SilentRow
pub mod Deciding
pub mod Numbered
pub mod Asked
