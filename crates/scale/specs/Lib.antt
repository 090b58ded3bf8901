pub mod Model
pub mod Laws
pub mod Numbers
pub mod Refusals
