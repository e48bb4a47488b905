pub mod Served
pub mod Values
