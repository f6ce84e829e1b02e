pub mod Reading
pub mod Faults
