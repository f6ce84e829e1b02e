pub mod Walking
pub mod Going
pub mod Coasts
pub mod Ends
pub mod Choosing
