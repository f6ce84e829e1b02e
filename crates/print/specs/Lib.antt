pub mod Plan
pub mod Dry
pub mod Reading
