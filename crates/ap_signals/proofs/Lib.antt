pub mod Asked
pub mod NetMachine
pub mod NetRows
pub mod NetStates
