pub mod Calls
pub mod Phases
pub mod Plans
