pub mod Sizes
pub mod Images
