pub mod Cuts
pub mod Nexts
pub mod Counts
pub mod Stand
pub mod Agree
pub mod Alike
pub mod Lists
pub mod Meant
