pub mod Lines
pub mod Homes
pub mod Instrs
pub mod Laws
pub mod Starts
pub mod Choices
pub mod Links
