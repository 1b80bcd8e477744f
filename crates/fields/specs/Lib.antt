pub mod Found
pub mod Decimal
pub mod Fields
pub mod Facts
