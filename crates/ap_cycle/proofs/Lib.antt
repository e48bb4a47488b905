pub mod Circuits
pub mod Proper
pub mod Run
pub mod Shown
pub mod SmallCircuits
pub mod Stages
pub mod Steps
