pub mod Ranges
pub mod Chains
pub mod Sets
pub mod ChainLaws
pub mod SetLaws
