pub mod Recording
pub mod Cycle
