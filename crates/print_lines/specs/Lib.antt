pub mod Lines
pub mod Rehearse
