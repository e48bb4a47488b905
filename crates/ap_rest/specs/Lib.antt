pub mod Uses
pub mod Idle
pub mod Reads
pub mod Serving
pub mod Fitting
pub mod Memories
pub mod Standing
