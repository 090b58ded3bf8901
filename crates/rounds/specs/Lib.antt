pub mod Rows
pub mod Settled
