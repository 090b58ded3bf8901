pub mod Bytes
pub mod Tokens
pub mod Shown
pub mod Names
