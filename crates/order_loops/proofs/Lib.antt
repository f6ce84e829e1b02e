pub mod Closing
pub mod Collecting
