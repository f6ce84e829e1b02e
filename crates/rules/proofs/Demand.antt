pub mod Asked
pub mod Coast
pub mod Fewest
pub mod Steps
pub mod Record
pub mod Marks
pub mod Alike
pub mod Along
