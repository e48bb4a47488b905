pub mod Circuit
pub mod KeptStates
pub mod Signals
pub mod SmallCircuit
