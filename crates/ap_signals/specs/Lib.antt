pub mod Asked
pub mod DesignOutside
pub mod KeptNets
pub mod NetRuns
pub mod NetSignals
