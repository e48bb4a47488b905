pub mod Started
pub mod Tables
pub mod Tops
pub mod Whole
