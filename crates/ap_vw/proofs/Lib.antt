pub mod Digits
pub mod NetText
pub mod Printed
pub mod Written
