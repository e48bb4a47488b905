pub mod Maps
pub mod Steps
pub mod Stored
pub mod Whole
