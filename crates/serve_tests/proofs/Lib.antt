pub mod TestValues
