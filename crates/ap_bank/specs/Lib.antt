pub mod Regs
pub mod Joins
pub mod PortStages
pub mod Placed
pub mod LateNets
pub mod Banked
pub mod Border
pub mod FileBorder
