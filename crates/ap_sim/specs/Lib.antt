pub mod Faults
pub mod Kinds
pub mod Runnable
pub mod Inputs
pub mod Laws
pub mod Rows
pub mod RowLines
