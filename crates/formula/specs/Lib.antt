pub mod Grammar
pub mod Words
pub mod Read
pub mod Tells
