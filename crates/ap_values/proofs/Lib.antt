pub mod Effects
pub mod Instrs
pub mod Served
pub mod Slots
