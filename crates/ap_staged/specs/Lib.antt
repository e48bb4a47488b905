pub mod Grounds
pub mod Led
pub mod Ports
pub mod Served
pub mod Stages
pub mod Standing
pub mod Together
