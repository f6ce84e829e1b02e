pub mod Cases
pub mod Bits
pub mod Laws
pub mod Ends
pub mod Members
pub mod Lists
