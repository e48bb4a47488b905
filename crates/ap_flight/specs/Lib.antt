pub mod Planned
pub mod Entries
pub mod Locals
pub mod Stages
