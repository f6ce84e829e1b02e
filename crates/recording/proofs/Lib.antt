pub mod Length
pub mod Opening
pub mod Rooms
pub mod Cycling
pub mod Rehearsing
pub mod Settled
pub mod Demand
pub mod Calls
