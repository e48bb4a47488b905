pub mod Lists
pub mod Left
pub mod Coming
pub mod Flowing
pub mod Followed
pub mod Served
pub mod Border
