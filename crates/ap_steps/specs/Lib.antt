pub mod Steps
pub mod Intervals
pub mod Clocked
pub mod Known
pub mod Built
pub mod TopOrder
pub mod PortNumbers
