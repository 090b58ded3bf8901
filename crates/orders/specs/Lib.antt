pub mod Finite
pub mod Orders
pub mod Words
