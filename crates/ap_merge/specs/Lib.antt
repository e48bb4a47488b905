pub mod Selects
pub mod Choices
pub mod Gathered
