pub mod Leads
pub mod Plays
pub mod Sized
pub mod Plans
pub mod Counting
