pub mod Differences
pub mod Quotients
