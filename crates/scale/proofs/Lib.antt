pub mod Bools
pub mod Readings
