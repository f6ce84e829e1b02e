pub mod Answers
pub mod Parts
pub mod Settled
pub mod Trips
