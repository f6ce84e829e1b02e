pub mod Sizes
pub mod Refusing
pub mod Reading
pub mod Rooms
pub mod Answers
pub mod Reaching
