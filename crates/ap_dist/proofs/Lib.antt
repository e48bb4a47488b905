pub mod Bounds
pub mod Built
pub mod Gaps
pub mod Gathered
pub mod Greatest
pub mod Loosened
pub mod Matched
pub mod Read
