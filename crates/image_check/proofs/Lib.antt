pub mod Checks
pub mod Ordering
pub mod Answers
