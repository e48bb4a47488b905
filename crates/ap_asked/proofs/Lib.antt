pub mod Given
pub mod Stood
