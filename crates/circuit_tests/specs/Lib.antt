pub mod Examples
pub mod Reverse
pub mod UnitRows
pub mod Counter
pub mod Tiny
