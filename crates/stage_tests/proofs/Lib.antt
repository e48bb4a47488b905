pub mod Alone
pub mod Doubling
