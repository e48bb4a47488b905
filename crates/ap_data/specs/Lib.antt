pub mod Operands
pub mod Slots
pub mod Stage
pub mod Units
