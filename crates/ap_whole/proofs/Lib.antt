pub mod Effects
pub mod Handed
pub mod Homes
pub mod Leaving
pub mod Matching
pub mod Whole
