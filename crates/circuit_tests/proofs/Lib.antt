pub mod Tested
pub mod Reversed
pub mod NandValues
pub mod Counting
pub mod Smallest
