pub mod Declaring
pub mod Writes
pub mod Storing
pub mod Leading
pub mod Seen
pub mod Idle
pub mod Left
