pub mod Carries
pub mod Multiplied
