pub mod PlainViews
pub mod Scenes
