pub mod Live
pub mod Widths
pub mod Slots
pub mod Ranks
