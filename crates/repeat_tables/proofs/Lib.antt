pub mod Repeating
pub mod Summing
