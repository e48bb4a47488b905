pub mod Cells
pub mod Ops
pub mod Spots
pub mod Benches
pub mod BenchViews
