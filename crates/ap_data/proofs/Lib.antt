pub mod Held
pub mod Linked
pub mod Operands
pub mod Slotted
