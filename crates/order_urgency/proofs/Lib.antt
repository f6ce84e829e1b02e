pub mod One
pub mod Handing
pub mod Apart
pub mod Picking
pub mod Turns
