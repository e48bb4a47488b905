pub mod Cells
pub mod FilePorts
pub mod FileModules
pub mod Writers
pub mod Building
