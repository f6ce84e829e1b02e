pub mod Lines
pub mod Loop
pub mod Planned
