pub mod Refresh
