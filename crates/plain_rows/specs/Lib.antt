pub mod Lines
pub mod PlainRows
pub mod Shelf
