pub mod Left
pub mod Flowing
pub mod Followed
pub mod Served
pub mod Border
