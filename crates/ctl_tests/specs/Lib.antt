pub mod Alone
pub mod Looks
