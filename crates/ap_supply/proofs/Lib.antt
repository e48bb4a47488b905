pub mod Apart
pub mod Entries
pub mod Listed
pub mod Served
pub mod SlowOnes
