pub mod Answers
pub mod Levels
pub mod Accepting
pub mod Judging
pub mod Settled
