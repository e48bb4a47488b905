pub mod Pieces
pub mod NetLines
pub mod LeftLines
pub mod Printing
