pub mod Going
pub mod Orders
pub mod UseFacts
