pub mod Built
pub mod Clocked
pub mod Intervals
pub mod Known
pub mod PortNumbers
pub mod Steps
pub mod TopOrder
