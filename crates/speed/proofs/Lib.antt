pub mod Alike
pub mod Listed
pub mod Answers
pub mod OnTime
