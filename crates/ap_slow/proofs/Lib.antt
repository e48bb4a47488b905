pub mod Asked
pub mod DrivenAll
pub mod DrivenOne
pub mod Lates
pub mod PlacedAll
pub mod PlacedOne
pub mod Stage
pub mod Users
