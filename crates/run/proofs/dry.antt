pub mod Onward
pub mod Readiness
pub mod Refusing
pub mod Drying
