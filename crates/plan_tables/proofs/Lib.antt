pub mod Working
pub mod Filling
