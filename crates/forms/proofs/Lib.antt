pub mod LineForms
pub mod InOrder
