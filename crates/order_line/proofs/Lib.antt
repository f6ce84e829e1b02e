pub mod Growing
pub mod Numbering
pub mod Walking
