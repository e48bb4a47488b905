mod Alone
pub mod Cleaned
mod NewNames
