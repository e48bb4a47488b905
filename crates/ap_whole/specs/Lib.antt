pub mod Homes
pub mod Effects
pub mod Handed
pub mod Whole
