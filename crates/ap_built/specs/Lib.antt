pub mod Front
pub mod FileReads
pub mod Top
pub mod Running
pub mod Ordered
