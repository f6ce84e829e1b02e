pub mod Refusals
pub mod Told
pub mod Calls
