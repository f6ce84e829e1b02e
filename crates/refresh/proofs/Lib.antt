pub mod Grounds
pub mod Records
pub mod Ceilings
pub mod Answers
