pub mod Cuts
pub mod Firsts
pub mod Heads
pub mod Lines
pub mod Places
pub mod Walks
pub mod Whole
pub mod Words
