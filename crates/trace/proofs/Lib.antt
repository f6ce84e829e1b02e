pub mod Entries
pub mod Faults
pub mod Tallies
pub mod Averages
