pub mod Differences
pub mod Divided
