pub mod Cuts
pub mod Laws
pub mod LineLists
pub mod Tokens
pub mod Written
