pub mod Ranges
pub mod Turns
