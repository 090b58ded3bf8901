pub mod Bounds
pub mod Zips
pub mod Turns
pub mod Lines
pub mod Entries
