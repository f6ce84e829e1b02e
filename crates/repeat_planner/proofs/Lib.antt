pub mod Answers
pub mod Planned
pub mod Settled
