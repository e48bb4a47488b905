pub mod Working
pub mod Leaving
pub mod Serving
pub mod Ordering
