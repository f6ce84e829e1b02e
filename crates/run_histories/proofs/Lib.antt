pub mod Replies
pub mod Accepting
pub mod Cycle
pub mod Demand
pub mod Planning
pub mod Camera
pub mod Worked
