pub mod Rows
pub mod Bounds
