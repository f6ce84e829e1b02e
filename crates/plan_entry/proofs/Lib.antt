pub mod Signed
pub mod Limits
pub mod Coast
pub mod Sixteens
