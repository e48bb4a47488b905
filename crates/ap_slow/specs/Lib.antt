pub mod Asking
pub mod Driven
pub mod Placed
