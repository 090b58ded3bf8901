pub mod Logics
pub mod Facts
pub mod Cases
