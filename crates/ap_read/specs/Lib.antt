pub mod Answers
pub mod LineFaults
pub mod Places
pub mod ReadFaults
pub mod SaidBy
pub mod Texts
