pub mod Steps
pub mod Whole
pub mod Lines
pub mod Forms
pub mod Turns
