pub mod AsmKinds
pub mod Fits
pub mod Labels
pub mod LineFaults
pub mod Programs
pub mod SoFar
pub mod Sources
pub mod Statements
