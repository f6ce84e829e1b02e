pub mod Waiting
pub mod Placing
pub mod Ending
pub mod Judging
pub mod Numbering
