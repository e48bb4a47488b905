pub mod Absent
pub mod FirstPorts
pub mod FlatRuns
pub mod ReadRuns
pub mod Standing
