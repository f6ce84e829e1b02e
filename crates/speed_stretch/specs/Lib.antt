pub mod Answer
pub mod Stretch
