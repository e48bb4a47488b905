pub mod Beside
pub mod Cards
pub mod KindCards
pub mod Names
pub mod Operations
pub mod Rows
pub mod Terms
pub mod formers
