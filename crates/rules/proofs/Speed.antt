-- The laws of the speed reading.
pub mod Quotient
pub mod Reading
