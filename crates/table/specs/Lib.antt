pub mod Tables
pub mod Cuts
pub mod Logics
pub mod Bytes
pub mod Laws
pub mod Lattices
