pub mod TestCards
