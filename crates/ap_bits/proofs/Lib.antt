pub mod Counts
pub mod LeastPowers
pub mod LowBits
pub mod NameLemmas
pub mod SignedValues
pub mod TermValues
