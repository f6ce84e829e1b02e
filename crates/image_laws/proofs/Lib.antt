pub mod Sizes
pub mod Same
pub mod Written
pub mod Again
pub mod RoundTrip
pub mod Accepts
