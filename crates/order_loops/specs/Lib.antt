pub mod Looped
