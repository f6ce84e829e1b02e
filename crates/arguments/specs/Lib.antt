pub mod Year
