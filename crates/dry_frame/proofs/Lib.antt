pub mod Cycle
pub mod Answers
pub mod Settled
