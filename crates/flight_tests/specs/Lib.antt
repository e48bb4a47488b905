pub mod Alone
pub mod Examples
