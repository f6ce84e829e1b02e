pub mod Answers
pub mod Alike
pub mod Settled
pub mod Reading
