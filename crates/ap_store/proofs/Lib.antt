mod CellLaws
mod Ranges
pub mod FileShapes
mod Orders
mod Hot
mod Lines
mod Chosen
mod FileNames
mod Grown
mod Depended
mod ReadPorts
mod WritePorts
mod Drivers
mod PortPlaces
mod Circuits
mod WireNames
mod Whole
mod FileNeeds
