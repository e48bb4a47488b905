pub mod Standing
pub mod Grown
pub mod Waiting
pub mod Serving
pub mod Ordered
