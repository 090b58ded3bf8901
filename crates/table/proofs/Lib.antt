pub mod Places
pub mod Exact
