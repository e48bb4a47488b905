pub mod HomeLemmas
pub mod Ranked
pub mod Widest
