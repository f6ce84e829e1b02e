pub mod Ranges
pub mod Refusing
pub mod Turns
pub mod Answers
