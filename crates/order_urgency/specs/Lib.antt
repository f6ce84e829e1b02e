pub mod Lent
pub mod Spread
