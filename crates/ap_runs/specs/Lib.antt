pub mod RunReadings
pub mod FirstPorts
