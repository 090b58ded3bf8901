pub mod Word
pub mod Refusals
pub mod Shown
