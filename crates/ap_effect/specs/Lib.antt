pub mod Writers
pub mod Lines
pub mod Shown
pub mod Border
