pub mod Few
pub mod Gathered
pub mod Halves
pub mod OwnSource
pub mod SamePorts
pub mod SelectValues
