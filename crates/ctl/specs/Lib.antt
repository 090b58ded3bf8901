pub mod Operations
pub mod Formulas
pub mod Values
pub mod Readings
pub mod Computed
pub mod Theorems
