pub mod Blocks
pub mod Encoded
pub mod Found
pub mod Judged
pub mod Lines
pub mod Pairs
pub mod Patterns
pub mod Places
