pub mod Loads
pub mod Shown
