pub mod BodyFrame
pub mod Walk
