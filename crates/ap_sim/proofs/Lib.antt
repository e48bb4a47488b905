pub mod Judging
pub mod RowSteps
pub mod RunExists
