pub mod Walking
pub mod Rooms
pub mod Answers
pub mod One
pub mod Settled
