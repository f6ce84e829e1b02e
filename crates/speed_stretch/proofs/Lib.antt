pub mod Answers
pub mod Stretches
