mod Cases
mod Passed
pub mod Puts
mod Decimal
pub mod Lengths
mod Signed
