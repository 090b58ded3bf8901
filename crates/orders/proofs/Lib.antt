pub mod Finites
pub mod Ranges
pub mod Bits
pub mod Folds
pub mod Greatest
pub mod Readings
pub mod Verdicts
