pub mod Uses
pub mod Tables
