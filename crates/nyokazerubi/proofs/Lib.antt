pub mod Asking
pub mod Host
