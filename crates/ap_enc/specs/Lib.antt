pub mod Examples
pub mod Faults
pub mod Packed
pub mod Words
